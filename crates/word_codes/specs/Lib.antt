pub mod WordPrefixes
