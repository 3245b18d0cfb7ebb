mod Told
mod Outs
mod PlaceLaws
mod Texts
mod PictureLaws
mod Drawn
mod Sinks
mod Runs
