pub mod Pick
pub mod Tests
pub mod Products
pub mod Below
pub mod Bytes
