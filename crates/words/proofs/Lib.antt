-- Lemmas on plain numbers that more than one function's proof cites.
mod Parts
