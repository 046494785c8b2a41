mod Every
mod Firsts
