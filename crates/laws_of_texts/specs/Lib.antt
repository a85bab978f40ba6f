-- What the laws of session texts say.
pub mod Contents
pub mod Grammar
pub mod Laws
pub mod Lines
pub mod GeneratedLaws
