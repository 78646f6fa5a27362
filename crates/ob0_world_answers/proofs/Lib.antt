mod ModuleValues
mod Answering
