mod Signs
mod Agreed
mod Steps
mod Texts
mod LineLists
