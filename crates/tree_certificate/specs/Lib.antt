pub mod TreeTexts
pub mod Reading
pub mod FieldsRead
pub mod LinesRead
pub mod NodesRead
pub mod TreesRead
pub mod Versions
