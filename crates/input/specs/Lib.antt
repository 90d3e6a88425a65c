pub mod Arguments
pub mod Input
pub mod Printed
