mod Lines
mod FirstLaws
mod Feeds
mod Runs
mod Rows
