mod Below
mod Proved
mod Entries
mod Examples
mod LineUses
