mod Occurrences
mod FreeTerms
mod Restricted
