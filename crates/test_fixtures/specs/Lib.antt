pub mod test_words
