mod Chains
mod Forking
mod Made
