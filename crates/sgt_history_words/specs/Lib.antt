pub mod OneLine
