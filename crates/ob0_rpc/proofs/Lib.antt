pub mod AppendedJson
mod Lists
mod Whole
