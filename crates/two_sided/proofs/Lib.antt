mod Firsts
mod LineTests
mod ListTests
mod Holding
mod OwnRuns
mod ChainTests
