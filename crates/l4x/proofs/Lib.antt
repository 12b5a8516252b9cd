pub mod SleepLemmas
