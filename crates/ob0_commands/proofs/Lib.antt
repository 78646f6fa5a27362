mod Gathering
mod Lines
mod Pieces
mod RenameEndsWithoutFault
mod RunsPrinted
mod Taken
mod Words
mod Wrong
