mod Entering
mod Answering
mod Passing
