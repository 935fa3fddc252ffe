pub mod Resynced
