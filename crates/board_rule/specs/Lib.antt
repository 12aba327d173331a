pub mod Mailbox
pub mod Accounts
pub mod Board
pub mod Steps
pub mod Laws
