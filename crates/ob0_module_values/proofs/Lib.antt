pub mod ModuleValues
