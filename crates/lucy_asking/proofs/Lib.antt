mod Shapes
mod Rows
