mod LineLaws
mod TapeLaws
