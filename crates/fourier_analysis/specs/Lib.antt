pub mod Longitudes
