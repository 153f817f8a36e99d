-- What the proof of the asks cites.
mod Asks
