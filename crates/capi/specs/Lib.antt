pub mod Reply
