mod Forced
mod Loops
mod Logs
mod OneRun
mod Tested
mod Worked
