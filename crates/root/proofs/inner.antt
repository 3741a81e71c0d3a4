-- What the proof of `root` uses: the digits so far.
mod Digits
