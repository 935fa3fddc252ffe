pub mod Folder
pub mod DirStore
