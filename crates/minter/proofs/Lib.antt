mod Dues
mod Found
mod Mints
mod Rooms
mod Stops
