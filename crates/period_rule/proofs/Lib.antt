mod Periods
