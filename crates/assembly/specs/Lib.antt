-- score's whole contract: the code's answer as document 01's, what is lent afterwards, and demand 3.
pub mod Answer
pub mod Demand
pub mod Contract
pub mod Inner
