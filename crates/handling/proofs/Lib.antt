pub mod SampleLines
