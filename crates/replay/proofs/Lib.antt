pub mod Accounts
mod Replaying
