pub mod OnReading
