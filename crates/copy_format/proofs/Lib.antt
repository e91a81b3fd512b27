pub mod CopiesRead
pub mod Cuts
pub mod Lengths
pub mod Packets
pub mod PacketsRead
pub mod Placed
pub mod Words
pub mod Written
