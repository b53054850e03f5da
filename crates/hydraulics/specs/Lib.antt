pub mod Hydraulics
