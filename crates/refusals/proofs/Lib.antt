-- Laws of the table of refusals.
pub mod Numbers
