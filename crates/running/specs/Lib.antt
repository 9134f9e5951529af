-- What the contract of `run_accepted` cites beside the definitions of calls: the end of a run as the engine leaves it.
pub mod Ends
