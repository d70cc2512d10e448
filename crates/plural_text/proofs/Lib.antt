pub mod Monomials
pub mod Signs
pub mod Joined
pub mod Relations
pub mod RightSides
pub mod Characters
pub mod Numbers
pub mod Powers
pub mod Products
pub mod Terms
pub mod Rests
pub mod Steps
pub mod RelationLines
mod CertificateLines
