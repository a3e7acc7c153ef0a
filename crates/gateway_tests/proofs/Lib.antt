mod Leaving
mod Places
