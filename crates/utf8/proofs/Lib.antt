pub mod BoolLaws
pub mod Utf8Laws
pub mod CharLaws
pub mod ScanLaws
pub mod Encoding
