pub mod OldImages
