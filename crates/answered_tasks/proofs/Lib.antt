mod Printed
mod Searched
mod Shown
mod Stopped
mod Checking
mod Ended
