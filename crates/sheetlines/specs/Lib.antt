pub mod SheetSaid
