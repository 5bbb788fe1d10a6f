mod Known
mod Shown
