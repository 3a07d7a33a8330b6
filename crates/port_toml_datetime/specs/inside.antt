-- What private contracts alone cite, by subject.
pub mod GrammarParts
pub mod Words
