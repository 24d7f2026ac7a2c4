mod Examples
mod Steps
mod Variables
mod Firsts
mod Rivals
