-- What the listing of new slots needs: Listed (their numbers, lent as a slice of their column).
pub mod Listed
