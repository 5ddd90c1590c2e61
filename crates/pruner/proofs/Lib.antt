pub mod CutOff
pub mod Agreement
pub mod Parting
pub mod Sifting
pub mod Uncut
