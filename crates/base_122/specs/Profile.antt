-- The code tables of this project's own profile: the codes of symbols 0, 1, 2, ... (Made for words of two,
-- three and four bits as CCSDS 122.0-B-2, section 4.5.3.3, has them; the tables are this project's own.)
use Rattle.std.specs.Prelude.{ℕ, ◌+◌, ◌-◌, ◌*◌, List, [], ◌∷◌, ◌++◌, fold, map, length, replicate, codes}
use Rattle.base_122.specs.declared.book.Code.{Code}
use Rattle.base_122.specs.declared.book.Book.{Book}

-- the entry of a symbol that has no code
abbrev pub no_code : Code
no_code = record { bits = 0; len = 0 }

-- the number whose binary digits, the characters 48 and 49, are given
abbrev pub number_of_text : List ℕ → ℕ
number_of_text text = fold (λ n c. 2 * n + (c - 48)) 0 text

-- the code whose bits are given as a string of the digits 0 and 1
abbrev pub code_of_text : List ℕ → Code
code_of_text text = record { bits = number_of_text text; len = length text }

abbrev pub table_of_texts : List (List ℕ) → List Code
table_of_texts texts = map code_of_text texts

-- words of two bits
abbrev pub two : List (List ℕ)
two = codes "1" ∷ codes "01" ∷ codes "001" ∷ codes "000" ∷ []

-- words of three bits
abbrev pub three_short : List (List ℕ)
three_short =
    codes "1" ∷ codes "01" ∷ codes "001" ∷ codes "00000" ∷ codes "00001" ∷ codes "00010" ∷ codes "000110" ∷
    codes "000111" ∷ []

abbrev pub three_even : List (List ℕ)
three_even =
    codes "10" ∷ codes "11" ∷ codes "010" ∷ codes "011" ∷ codes "0010" ∷ codes "0011" ∷ codes "0000" ∷
    codes "0001" ∷ []

-- words of four bits
abbrev pub four_short : List (List ℕ)
four_short =
    codes "1" ∷ codes "01" ∷ codes "001" ∷ codes "0001" ∷ codes "0000000" ∷ codes "0000001" ∷ codes "0000010" ∷
    codes "0000011" ∷ codes "00001000" ∷ codes "00001001" ∷ codes "00001010" ∷ codes "00001011" ∷
    codes "00001100" ∷ codes "00001101" ∷ codes "00001110" ∷ codes "00001111" ∷ []

abbrev pub four_middle : List (List ℕ)
four_middle =
    codes "10" ∷ codes "11" ∷ codes "010" ∷ codes "011" ∷ codes "0010" ∷ codes "0011" ∷ codes "000000" ∷
    codes "000001" ∷ codes "000010" ∷ codes "000011" ∷ codes "000100" ∷ codes "000101" ∷ codes "0001100" ∷
    codes "0001101" ∷ codes "0001110" ∷ codes "0001111" ∷ []

abbrev pub four_even : List (List ℕ)
four_even =
    codes "100" ∷ codes "101" ∷ codes "110" ∷ codes "111" ∷ codes "0100" ∷ codes "0101" ∷ codes "0110" ∷
    codes "0111" ∷ codes "00100" ∷ codes "00101" ∷ codes "00110" ∷ codes "00111" ∷ codes "00000" ∷
    codes "00001" ∷ codes "00010" ∷ codes "00011" ∷ []

-- each table has 16 places, and those that it does not use have no code
unfoldable pub profile : Book
profile = record {
  codes =
      (table_of_texts two ++ replicate 12 no_code) ∷ (table_of_texts three_short ++ replicate 8 no_code) ∷
      (table_of_texts three_even ++ replicate 8 no_code) ∷ table_of_texts four_short ∷ table_of_texts four_middle ∷
      table_of_texts four_even ∷ [];
}
