-- What the proof of `is_inner_pinched` and `is_pinched` uses.
mod Around
