-- Document 01, 'Match table', as definitions that compute; rows 9 and 10; and the laws of the table as statements.
pub mod Table
pub mod Rows
pub mod Laws
pub mod Reading
pub mod Examples
pub mod Inner
