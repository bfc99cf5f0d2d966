mod Numbering
mod Entries
