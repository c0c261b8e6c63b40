pub mod FourKinds
pub mod Lengths
pub mod Written
pub mod Bytes
pub mod Steps
pub mod Grammar
pub mod Proper
pub mod Forms
