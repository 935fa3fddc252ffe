pub mod Accepted
mod AddingDatafile
pub mod Agreeing
pub mod AnsweredWithout
pub mod Answering
pub mod Applying
mod Archives
mod ArchivingAll
pub mod Asking
mod AtHand
mod BackingUp
mod BackingUpLogs
mod Beside
mod Bitmaps
mod BranchesSound
mod Branching
pub mod Carried
mod Cataloguing
mod Choosing
mod Cleared
mod Corrupting
mod CountedLogs
pub mod Creating
mod DamagedRows
pub mod DatedLines
pub mod DatedRefusals
mod Deleting
mod DeletingObsolete
mod Disabling
pub mod Dropping
mod Enabling
pub mod Every
mod Exchanging
mod Found
pub mod Founding
mod FreshLogs
mod Further
mod Gaps
mod Grown
pub mod Halting
mod Increments
pub mod Leading
mod LooseBackup
mod LooseCopies
mod LooseMishaps
mod LooseNew
mod LooseQuiet
mod LooseUpkeep
mod Loosening
mod Losing
mod LosingLog
pub mod LowNames
mod Mended
mod Mishaps
mod Mounting
mod NewObjects
mod OldCopies
mod OnBranches
mod Opened
mod Opening
mod Pieces
pub mod PlainLines
mod Quiet
mod Recording
mod Recovered
mod Renewals
mod Renewing
mod Repairing
mod Restoring
mod Rolling
mod Roomy
pub mod Safely
mod Settings
mod Switching
mod Telling
mod ThreadSwitched
mod ThreadSwitches
pub mod Told
mod Tracking
mod Upkeep
mod Walk
mod Wanted
mod WindowStart
mod WritesKeep
mod Writing
