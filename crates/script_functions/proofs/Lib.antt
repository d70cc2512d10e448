mod SortedLists
