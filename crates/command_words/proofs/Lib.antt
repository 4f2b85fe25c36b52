mod Building
mod Rows
mod Commands
